-- The units of each node, stored in work memory, and what the ends are worth with them.
pub mod internal
