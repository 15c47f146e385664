pub mod Joined
pub mod Ways
pub mod Far
