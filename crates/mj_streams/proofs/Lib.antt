pub mod PageLaws
pub mod AlikeLaws
pub mod Fours
