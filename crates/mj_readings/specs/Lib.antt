pub mod Sets
pub mod Complete
pub mod Readings
pub mod Tests
pub mod AllReadings
pub mod Completing
pub mod Inner
