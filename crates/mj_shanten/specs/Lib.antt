pub mod Room
pub mod Shanten
pub mod Suits
pub mod Walked
pub mod Exchanges
pub mod Discards
pub mod Inner
