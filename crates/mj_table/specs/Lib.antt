pub mod Offers
pub mod Plays
pub mod Inner
