-- What a session's steps keep on the way. No definition outside the crate names it, and no public clause.
pub mod Talks
