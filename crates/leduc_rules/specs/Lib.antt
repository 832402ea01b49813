-- Leduc hold'em (Southey et al. 2005): the deal, the keys and the money, and the positions that the rules reach.
pub mod Rules
pub mod Stakes
pub mod Reached
pub mod Facts
pub mod Moves
pub mod internal
