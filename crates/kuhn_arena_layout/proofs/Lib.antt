-- Facts of Kuhn's tree as its builder goes through it.
pub mod Numbers
pub mod Bets
pub mod Ends
pub mod Hands
pub mod Deals
pub mod Start
pub mod Apart
