-- What stands between functions: no public contract and no statement for readers reaches it.
pub mod Words
pub mod Held
pub mod Index
pub mod Built
pub mod Walk
pub mod Legible
