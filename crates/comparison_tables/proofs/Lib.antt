-- The comparison among evaluated tables, and tried on some.
pub mod Accepted
pub mod Tables
pub mod Tried
