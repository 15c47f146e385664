pub mod Referee
pub mod Safe
pub mod Questions
pub mod Keep
pub mod Bases
pub mod Statuses
pub mod Inner
