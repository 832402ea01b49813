-- Proofs that the builder's tree is the rules', of the codes of its sets, and of nodes laid out one after the other.
pub mod Agreeing
pub mod Laying
pub mod Sets
