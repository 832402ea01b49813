-- Lemmas on the best value over a game's stored tree.
pub mod Staging
