pub mod Wiring
pub mod Entering
pub mod Turning
pub mod Talking
pub mod Ending
