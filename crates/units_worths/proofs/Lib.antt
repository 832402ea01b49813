-- Laws of whole units by game number.
pub mod Entries
pub mod Facts
pub mod Powers
pub mod Lowering
pub mod Standing
