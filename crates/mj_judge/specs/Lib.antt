pub mod Inner
pub mod Measured
