-- What the walls of a game keep, with the definitions that only they and their proofs need. No definition outside the crate names
-- them, and no public clause.
pub mod Firsts
pub mod Supplies
