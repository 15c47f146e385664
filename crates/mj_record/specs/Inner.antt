-- What is done once a journal was opened. No definition outside the crate names it, and no public clause.
pub mod Recording
