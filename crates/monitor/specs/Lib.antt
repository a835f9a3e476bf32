pub mod Verdicts
pub mod Monitoring
pub mod Monitors
