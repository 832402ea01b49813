-- What a refusal is (document 01, "What comes back when a call is refused").
pub mod Refusals
pub mod Outcomes
pub mod Facts
pub mod internal
