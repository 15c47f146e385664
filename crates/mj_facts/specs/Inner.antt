-- What only this crate and its proofs name.
pub mod Fitting
pub mod Passing
