-- Laws for the crates above.
pub mod Order
pub mod Facts
pub mod Outcomes
