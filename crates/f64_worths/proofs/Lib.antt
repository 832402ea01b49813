-- Lemmas on the sums of a seat (Summing), and of two (Both).
pub mod Summing
pub mod Both
