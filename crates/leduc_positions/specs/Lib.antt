-- Positions of Leduc hold'em: their cards and actions, and what is checked of them.
pub mod Positions
pub mod Hands
