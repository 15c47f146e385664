pub mod Acting
pub mod Told
