pub mod Beside
pub mod Idle
pub mod Ticks
pub mod Watches
