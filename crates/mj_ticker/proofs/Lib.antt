pub mod Besides
pub mod Idling
pub mod Timing
pub mod Visiting
pub mod Rounds
