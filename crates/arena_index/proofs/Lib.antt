pub mod Steps
pub mod Numbering
pub mod Linking
