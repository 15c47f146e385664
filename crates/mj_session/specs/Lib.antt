pub mod Faults
pub mod Wires
pub mod Histories
pub mod Sessions
pub mod Waits
pub mod Inner
