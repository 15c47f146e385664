pub mod Words
pub mod Hands
pub mod Text
pub mod Inner
