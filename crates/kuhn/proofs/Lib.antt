-- Laws of Kuhn's calls.
pub mod Decides
pub mod Facts
pub mod Moving
