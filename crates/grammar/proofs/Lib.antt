pub mod Scanned
pub mod Complete
pub mod Sound
pub mod Shortened
pub mod Faults
pub mod Names
pub mod Readings
