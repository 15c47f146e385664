-- What an umpire and its state keep, with the definitions that only they and their proofs need. No definition outside the crate
-- names them, and no public clause.
pub mod Untold
pub mod Verdicts
pub mod States
pub mod Kept
pub mod Entries
