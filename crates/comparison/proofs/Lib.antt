-- Laws of wide products and of how numbers stand to each other, and what the comparison is.
pub mod Columns
pub mod Standing
pub mod Facts
