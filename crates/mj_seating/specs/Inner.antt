-- How a desk keeps its seats. No definition outside the crate names these, and no public clause.
pub mod Places
