pub mod Deeds
pub mod Inner
pub mod Laws
pub mod Settings
pub mod Usual
