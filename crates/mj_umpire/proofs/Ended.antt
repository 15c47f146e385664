-- After the end of a game no deed follows.
pub use Rattle.mj_history.proofs.Ended.{no_outcome}
