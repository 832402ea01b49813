-- The best value over a stored tree.
pub mod internal
