pub mod Six
pub mod Reading
pub mod Passing
pub mod Lifting
pub mod Found
pub mod Gains
pub mod Choices
