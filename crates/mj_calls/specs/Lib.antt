pub mod Shapes
pub mod Bans
pub mod RiichiKans
