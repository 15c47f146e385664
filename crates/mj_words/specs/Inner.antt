-- What clap found in words. No definition outside the crate names it, and no public clause.
pub mod Parsing
