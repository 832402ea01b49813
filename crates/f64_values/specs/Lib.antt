-- The best response in f64 over a stored tree.
pub mod internal
