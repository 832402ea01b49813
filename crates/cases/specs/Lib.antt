-- Document 01's worked cases, the reply theorem tried on a table of each game, and values that these leave open.
pub mod Cases
pub mod Tried
pub mod Pinned
