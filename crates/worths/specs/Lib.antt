-- The worths of a table (document 01, "Whole units"): what the call answers.
pub mod Calls
