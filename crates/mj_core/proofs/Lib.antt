pub use Rattle.mj_umpire.proofs.Games
pub mod KeptLines
pub mod Spare
pub mod ByEntries
pub mod NearLaws
