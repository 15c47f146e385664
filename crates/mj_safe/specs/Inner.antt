-- What the walks of this crate find. No definition outside the crate names them, and no public clause.
pub mod Blocks
pub mod Listing
