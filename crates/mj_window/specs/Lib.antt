pub mod Slots
pub mod Decided
pub mod Inner
