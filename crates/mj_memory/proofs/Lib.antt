pub mod Joins
pub mod Same
pub mod Nines
pub mod Counted
pub mod Hands
pub mod Completing
pub mod Discarding
