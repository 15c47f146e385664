pub mod ClockLaws
pub mod HostLaws
pub mod HeldLaws
pub mod WireLaws
pub mod KnownLaws
pub mod ReadLaws
pub mod WriteLaws
pub mod MemoryLaws
