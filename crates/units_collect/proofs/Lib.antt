pub mod Storing
pub mod Summing
