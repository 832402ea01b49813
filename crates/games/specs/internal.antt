-- What stands between functions: no public contract and no statement for readers reaches it.
pub mod Facts
pub mod Actions
pub mod Numbered
