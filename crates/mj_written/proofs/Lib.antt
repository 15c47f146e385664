pub mod Writings
pub mod Authoring
pub mod Vacatings
pub mod Present
