-- The listing of Leduc's sets (document 01, "The tree and its sets").
pub mod Listing
pub mod Facts
pub mod internal
