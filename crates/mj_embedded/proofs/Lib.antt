mod Heap
pub mod Limits
pub mod Listed
pub mod OnGames
pub mod PassLines
pub mod Passing
pub mod Rules
mod Values
pub mod WallLines
pub mod WordLines
