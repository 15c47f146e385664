-- What the giving back of links keeps while it goes. No definition outside the crate names it, and no public clause.
pub mod Giving
