pub mod Wholes
pub mod Splitting
pub mod Grouping
pub mod Reading
pub mod Ordered
