-- Lemmas on value and choice in f64 over a stored tree.
pub mod Valuing
pub mod Choosing
