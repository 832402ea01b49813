-- Laws of positions and of the checks of a saved one.
pub mod Positions
pub mod Order
