-- When a call that needs a tree is refused (document 01, "What comes back when a call is refused").
pub mod Checks
pub mod Accepted
pub mod Facts
pub mod internal
