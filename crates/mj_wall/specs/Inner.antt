-- How tiles are counted by their faces, for the code and its proofs alone. No definition outside the crate names it, and no public
-- clause.
pub mod FaceCounts
