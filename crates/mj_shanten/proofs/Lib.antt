pub mod Hands
pub mod Joint
mod Turned
pub mod Parting
pub mod Standard
pub mod Whole
pub mod Pairs
pub mod Written
pub mod Doubles
pub mod Sums
pub mod Order
pub mod Exists
pub mod Goal
pub mod Path
pub mod Least
pub mod Closed
mod Melded
pub mod Special
pub mod Fewest
pub mod BestDiscard
