-- Leduc: what a table is worth, and records of its listing.
pub mod Numbers
pub mod Records
