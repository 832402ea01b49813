-- The best value of a seat and its reply (document 01, "Whole units"): its answer and what is demanded of it.
pub mod Calls
