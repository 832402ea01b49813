-- Laws of Leduc's betting, cards and checks.
pub mod Histories
pub mod Deals
pub mod Checks
pub mod Rounds
pub mod Branches
pub mod Made
