pub mod Record
pub mod Statuses
pub mod Inner
