pub mod Hands
pub mod Answers
