-- Laws of Kuhn's rules.
pub mod Histories
pub mod Deals
pub mod Winner
pub mod Moves
pub mod Balance
pub mod Facts
pub mod Apart
