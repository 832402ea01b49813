-- Lemmas on floats and their patterns.
pub mod Patterns
