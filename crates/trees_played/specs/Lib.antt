-- The trees of both games as the public calls play them: what stands at a node is what they answer at its position.
pub mod Kuhn
pub mod Leduc
