pub mod Ranges
pub mod Fronts
pub mod Onto
pub mod Order
