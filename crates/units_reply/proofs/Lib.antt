-- Lemmas on writing a reply.
pub mod Laying
