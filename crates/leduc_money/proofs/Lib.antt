-- For the tactics that the functions name.
pub mod Places
