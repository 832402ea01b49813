-- Proofs of the facts about Leduc's tree.
pub mod Growth
pub mod Positions
pub mod Firsts
pub mod Computed
pub mod Facts
