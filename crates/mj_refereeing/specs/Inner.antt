-- What the walks of this crate keep while they go, with the definitions that only they and their proofs need. No definition
-- outside the crate names them, and no public clause.
pub mod Forms
pub mod Intake
pub mod Refereeing
pub mod Watching
pub mod Keeping
pub mod Bases
