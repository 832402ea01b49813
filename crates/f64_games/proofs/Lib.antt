-- Lemmas on the f64 values by game number.
pub mod Staging
pub mod Seats
pub mod Signs
pub mod Facts
