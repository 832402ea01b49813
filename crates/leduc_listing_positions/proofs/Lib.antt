-- Laws of the spots.
pub mod Spots
