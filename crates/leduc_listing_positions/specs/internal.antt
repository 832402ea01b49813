-- What stands between functions: no public contract and no statement for readers reaches it.
pub mod Moves
pub mod Spots
