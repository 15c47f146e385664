pub mod Replay
pub mod Observe
pub mod Statuses
pub mod Inner
