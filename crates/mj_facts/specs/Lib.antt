pub mod Courses
pub mod Few
pub mod Hands
pub mod Holding
pub mod Inner
pub mod Marks
pub mod Seats
