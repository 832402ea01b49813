-- Proofs of the counts of Leduc's tree, and of what the reply theorem asks of it.
pub mod Keys
pub mod Shape
pub mod Computed
pub mod Hands
pub mod Payoffs
pub mod Facts
