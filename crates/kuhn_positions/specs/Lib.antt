-- Positions of Kuhn poker: their cards and actions, and what is checked of them.
pub mod Positions
