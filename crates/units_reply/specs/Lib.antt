-- The reply as a table, over a stored tree.
pub mod internal
