pub mod Standing
pub mod Judging
pub mod Growing
pub mod Pieces
pub mod Writing
