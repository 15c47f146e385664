pub mod Growing
pub mod Scripts
pub mod Replays
pub mod Speaking
pub mod Taking
pub mod Others
