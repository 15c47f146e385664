pub mod Sitting
pub mod Inner
