-- Lemmas on walks over a stored tree.
pub mod Children
pub mod Standing
pub mod Noting
pub mod Finding
pub mod Descending
pub mod Remaining
