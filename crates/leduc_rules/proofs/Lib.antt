-- Laws of Leduc's rules.
pub mod Gains
pub mod Money
pub mod Pots
pub mod Reaching
pub mod Moves
pub mod Facts
pub mod Behind
pub mod Lawful
pub mod Play
