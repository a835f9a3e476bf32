pub mod Passes
pub mod Readings
