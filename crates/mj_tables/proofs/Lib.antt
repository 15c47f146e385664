pub mod Sitting
pub mod Coming
