-- Profiles in f64 (document 01, "The f64 values"): their values in a game's tree (Values), that the best choice,
-- and no other, decides each set as the paper says (Facts), and where −0.0 arises (Signs).
pub mod Values
pub mod Facts
pub mod Signs
