-- How types of this crate keep what they stand for. No definition outside the crate names these, and no public clause.
pub mod SeatLists
pub mod Kept
pub mod Numbers
