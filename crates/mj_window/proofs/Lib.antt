pub mod Closing
pub mod Passes
pub mod Emptied
