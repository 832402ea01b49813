-- The games by number: their seats, trees and counts (document 01, "The tree and its sets").
pub mod Games
pub mod Seats
pub mod Checks
pub mod Facts
pub mod Paths
pub mod Known
pub mod internal
