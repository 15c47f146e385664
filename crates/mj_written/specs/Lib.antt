pub mod Authors
pub mod Hearing
pub mod Vacating
pub mod Writing
