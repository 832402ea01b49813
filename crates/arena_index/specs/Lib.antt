-- The index of a tree in work memory: what its functions do.
pub mod internal
