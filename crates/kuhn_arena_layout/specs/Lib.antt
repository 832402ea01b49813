-- Kuhn's tree in work memory.
pub mod internal
