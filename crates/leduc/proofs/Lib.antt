-- Laws of Leduc's calls.
pub mod Writing
pub mod Answers
pub mod Decides
pub mod Facts
pub mod Moving
