pub mod Bare
pub mod Follows
pub mod Laws
pub mod Safe
pub mod Trace
pub mod Witness
