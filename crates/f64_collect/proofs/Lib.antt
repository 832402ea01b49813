-- Lemmas on the reaches that a walk stores.
pub mod Members
pub mod Storing
