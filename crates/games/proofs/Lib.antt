-- Laws of the counts and of the games by number.
pub mod Totals
pub mod Counts
pub mod Facts
pub mod Paths
pub mod Known
pub mod Numbered
