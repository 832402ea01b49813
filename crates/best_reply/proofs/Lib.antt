-- Lemmas on the call for a seat's best value and reply.
pub mod Outcome
