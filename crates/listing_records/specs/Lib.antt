-- The listing of a tree's sets (document 01, "The tree and its sets"), and how bytes come to stand in an output.
pub mod Listing
pub mod internal
