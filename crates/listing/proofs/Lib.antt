-- Laws of the listing call.
pub mod Games
pub mod Facts
