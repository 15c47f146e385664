-- What only this crate and its proofs name: the fields of a line, and its lists.
pub mod Fields
pub mod Lists
