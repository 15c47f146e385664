-- What the walks of this crate keep while they go, with the definitions that only they and their proofs need. No definition
-- outside the crate names them, and no public clause.
pub mod Alone
pub mod Free
pub mod Ready
pub mod Missed
pub mod Tried
