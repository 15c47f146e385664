-- What `check` answers; and in `Inner` how it goes from line to line, which no definition outside the crate names, and no public clause.
pub mod Inner
pub mod Checks
