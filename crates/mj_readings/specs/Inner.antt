-- What the walks of this crate keep while they go, with the definitions that only they and their proofs need. No definition
-- outside the crate names them, and no public clause.
pub mod Ways
pub mod Spots
pub mod SetLists
pub mod WinningWays
pub mod ReadingLists
pub mod OneMore
pub mod Sums
pub mod Suits
