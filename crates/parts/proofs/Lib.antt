pub mod Places
pub mod Shaping
pub mod Interned
pub mod Making
