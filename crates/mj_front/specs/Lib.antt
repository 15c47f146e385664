pub mod Hand
pub mod SelfPlay
pub mod Statuses
pub mod Run
