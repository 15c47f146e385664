-- What single steps of hosted games come to. No definition outside the crate names them, and no public clause.
pub mod Steps
