-- A game's tree in work memory, by the game's number: what a call leaves of work memory (Memory).
pub mod Memory
pub mod internal
