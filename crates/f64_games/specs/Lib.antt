-- The f64 values of a profile by game number (Values), that NashConv is the Rust's (Signs), and which choice is the best (Facts).
pub mod Values
pub mod Signs
pub mod Facts
