pub mod Seating
pub mod Stages
pub mod Spoken
