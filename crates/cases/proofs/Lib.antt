-- What the worked cases show.
pub mod Cases
pub mod Tried
pub mod Pinned
