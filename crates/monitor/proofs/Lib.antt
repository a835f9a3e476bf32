pub mod Rows
pub mod Bits
pub mod Stepping
pub mod Deciding
