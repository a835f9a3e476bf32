pub mod Faults
pub mod Entries
pub mod Rosters
pub mod Parts
pub mod Written
