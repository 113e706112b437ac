pub mod Answers
pub mod Memory
