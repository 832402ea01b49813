-- Lemmas on f64 values.
pub mod Leading
pub mod Deciding
pub mod Signs
