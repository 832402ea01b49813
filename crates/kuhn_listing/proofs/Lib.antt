-- Proofs of the facts about Kuhn's listing, and laws of its walk.
pub mod Rule
pub mod Steps
pub mod Walk
pub mod Fit
pub mod Facts
