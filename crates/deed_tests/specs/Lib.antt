pub mod ToyGame
pub mod ToyLaws
