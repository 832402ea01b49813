-- Kuhn poker as calls on positions: what each call answers, and what holds of it.
pub mod Calls
pub mod Facts
