pub mod Streams
pub mod Inner
