-- The reach of each own decision of a seat, stored in work memory.
pub mod internal
