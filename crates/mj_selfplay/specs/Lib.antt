pub mod SelfGame
pub mod Text
pub mod Laws
pub mod Inner
