-- What the code of this crate and its proofs say of passes. No definition outside the crate names it, and no public clause.
pub mod Passes
