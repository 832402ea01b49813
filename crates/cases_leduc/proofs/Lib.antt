-- How these numbers are had.
pub mod Rows
pub mod Numbers
pub mod Records
