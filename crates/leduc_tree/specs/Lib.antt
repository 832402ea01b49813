-- Leduc's tree (document 01, "The tree and its sets"): what the rules give from the start, and the facts about it.
pub mod Tree
pub mod Follows
pub mod Turns
pub mod Counts
pub mod Facts
pub mod Positions
pub mod internal
