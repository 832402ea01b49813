-- What a position keeps on its way through a call.
pub mod Facts
