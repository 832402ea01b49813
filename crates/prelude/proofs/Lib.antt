-- Laws for the crates above.
pub mod Tests
pub mod Lists
pub mod Amounts
pub mod Parts
pub mod Bytes
pub mod Sides
