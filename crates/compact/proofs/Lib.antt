pub mod Ticks
pub mod Numbers
pub mod Compacting
