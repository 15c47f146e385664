-- What the calls keep while they go on. No definition outside the crate names it, and no public clause.
pub mod Looks
