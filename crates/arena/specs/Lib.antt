-- The tree in work memory: what its words say.
pub mod internal
