pub mod Waiting
pub mod Answers
pub mod Steps
