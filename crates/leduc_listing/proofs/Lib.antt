-- Proofs of the facts about Leduc's listing, and laws of its walk.
pub mod Walk
pub mod Steps
pub mod Facts
