-- How texts are read, for the code and its proofs alone. No definition outside the crate names it, and no public clause.
pub mod Spelled
