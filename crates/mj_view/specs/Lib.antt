pub mod Seen
pub mod Tokens
pub mod Masks
