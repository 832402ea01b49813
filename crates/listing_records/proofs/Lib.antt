-- Laws for the crates above.
pub mod Bytes
pub mod Walk
