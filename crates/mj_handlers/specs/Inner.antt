-- What a handler's steps keep on the way. No definition outside the crate names them, and no public clause.
pub mod Receipts
pub mod Steps
