pub mod Numbered
pub mod Compacts
pub mod Ticks
