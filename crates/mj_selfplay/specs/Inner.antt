-- What the game keeps while it goes. No definition outside the crate names it, and no public clause.
pub mod Supplies
pub mod Tallies
