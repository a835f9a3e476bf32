pub mod Formula
pub mod Shorten
pub mod Progress
pub mod Obligation
pub mod Parts
pub mod Laws
pub mod Examples
pub mod Earliest
