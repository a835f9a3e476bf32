pub mod Exits
pub mod Waits
pub mod Whole
