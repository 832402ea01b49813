-- NashConv of a table (document 01, "Whole units"): what the call answers, and when it is 0 (document 02, Eight).
pub mod Calls
