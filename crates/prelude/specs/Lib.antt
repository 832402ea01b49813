-- What the rules of both games are written with.
pub mod Finite
pub mod internal
