-- Whole units over a tree in work memory.
pub mod internal
