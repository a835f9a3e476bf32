pub mod Passing
pub mod Truth
