-- Kuhn poker (document 01, "The two games"; Kuhn 1950, for n seats):
-- the rules, the positions that legal moves reach, and what holds of them.
pub mod Rules
pub mod Reached
pub mod Stakes
pub mod Facts
pub mod Moves
pub mod internal
