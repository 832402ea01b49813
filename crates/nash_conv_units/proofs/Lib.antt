-- Laws of NashConv over a game's seats, and of the call for it.
pub mod Differences
pub mod Seats
pub mod Outcome
