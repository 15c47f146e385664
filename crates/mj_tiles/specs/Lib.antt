pub mod Faces
pub mod Counts
pub mod Inner
pub mod Kinds
pub mod Melds
pub mod Terminals
