-- Whole units by game number (document 01, "Whole units"): the worths of a table.
pub mod Worths
pub mod internal
