pub mod TileOrder
pub mod WallFaces
pub mod Extras
pub mod FaceCounts
pub mod WallKinds
pub mod Shuffles
pub mod SeedWalls
