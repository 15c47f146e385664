pub mod Plans
pub mod Plays
pub mod Rooms
pub mod Steps
pub mod Serve
pub mod Tables
pub mod Statuses
pub mod Inner
