-- What is done once a record was read. No definition outside the crate names it, and no public clause.
pub mod Replaying
pub mod Observing
