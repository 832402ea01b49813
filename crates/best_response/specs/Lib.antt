-- The f64 values of a profile: what the calls answer (Calls).
pub mod Calls
