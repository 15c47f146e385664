pub mod Waits
pub mod Furiten
