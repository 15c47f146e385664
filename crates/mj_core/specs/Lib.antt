pub use Rattle.mj_umpire.specs.Calls
pub mod Told
pub mod Inner
