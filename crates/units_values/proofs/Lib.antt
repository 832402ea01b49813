-- Lemmas on value and choice over a stored tree.
pub mod Scenes
pub mod Valuing
pub mod Choosing
