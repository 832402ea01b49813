-- Laws of positions.
pub mod Positions
