-- Proofs that the public calls play the trees.
pub mod Lists
pub mod Kuhn
pub mod Leduc
