-- Leduc hold'em (Southey et al. 2005): the betting, the cards, and the checks of a saved position's.
pub mod Betting
pub mod Cards
pub mod Checks
