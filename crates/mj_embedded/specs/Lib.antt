pub mod Owned
pub mod Answers
pub mod Calls
pub mod Opens
pub mod Runs
pub mod Turns
pub mod Inner
