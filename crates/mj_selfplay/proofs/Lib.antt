pub mod Lawful
pub mod One
pub mod Played
pub mod Walls
pub mod Whole
