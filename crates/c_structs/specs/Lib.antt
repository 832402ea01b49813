-- What crosses to C: each game's position and answers as a twin holds them.
pub mod Kuhn
pub mod Leduc
pub mod Facts
