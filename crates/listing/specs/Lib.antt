-- The listing of a game's sets (document 01, "The tree and its sets"): what the call answers.
pub mod Calls
pub mod Facts
