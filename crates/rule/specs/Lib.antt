pub mod Rules
pub mod Ruled
