-- Laws of the checks of a tree and of a table.
pub mod Exits
pub mod Tree
pub mod Parts
pub mod Facts
