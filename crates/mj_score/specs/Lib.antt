pub mod Scores
pub mod Worth
pub mod Inner
