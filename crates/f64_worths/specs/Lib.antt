-- What a profile is worth to two seats, read of a tree in work memory.
pub mod internal
