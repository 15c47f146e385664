-- What the code of this crate keeps while it works, with the definitions that only it and its proofs need. No definition
-- outside the crate names them, and no public clause.
pub mod Kept
pub mod Latest
pub mod Seeing
