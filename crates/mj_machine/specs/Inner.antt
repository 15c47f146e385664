-- What the steps of the course owe to the deeds before them. No definition outside the crate names these, and no public
-- clause.
pub mod Steps
