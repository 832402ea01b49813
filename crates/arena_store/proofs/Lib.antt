-- Laws of the games' stored trees.
pub mod Levels
pub mod Shaped
pub mod Room
pub mod Stored
pub mod Staging
pub mod Memory
