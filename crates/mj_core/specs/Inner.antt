-- What is kept of the lines of a game, with the definitions that only that and its proofs need. No definition outside the crate
-- names them, and no public clause.
pub mod Streamed
pub mod Near
