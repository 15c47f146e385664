-- `Views` is what a watcher is told, `Traces` what it may learn; the laws join both. No definition outside the crate names those of
-- `Inner`, and no public clause.
pub mod Views
pub mod Traces
pub mod Laws
pub mod Inner
