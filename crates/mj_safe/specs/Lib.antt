pub mod Promise
pub mod Text
pub mod Inner
