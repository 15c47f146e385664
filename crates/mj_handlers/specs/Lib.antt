pub use Rattle.mj_session.specs.Wires
pub use Rattle.mj_session.specs.Histories
pub use Rattle.mj_session.specs.Sessions
pub mod Handlers
pub mod Picks
pub mod Hands
pub mod Inner
