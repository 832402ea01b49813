-- Lemmas on the way of a choice.
pub mod Lowest
pub mod Past
