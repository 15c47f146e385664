pub use Rattle.mj_hosting.specs.Rooms
pub mod Words
pub mod Journals
pub mod Host
pub mod Statuses
pub mod Inner
