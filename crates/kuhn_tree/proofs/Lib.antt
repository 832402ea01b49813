-- Proofs of the facts about Kuhn's tree.
pub mod Cards
pub mod Growth
pub mod Shape
pub mod Units
pub mod Recall
pub mod Payoffs
pub mod Sizes
pub mod Sets
pub mod Keys
pub mod Counts
pub mod Order
pub mod Positions
pub mod Range
pub mod Facts
