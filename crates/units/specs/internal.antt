-- What stands between functions: no public contract and no statement for readers reaches it.
pub mod Lifted
pub mod Readable
pub mod Sums
pub mod Gain
pub mod Gains
