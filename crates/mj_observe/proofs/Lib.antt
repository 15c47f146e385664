pub mod Growing
pub mod Bare
pub mod Secrets
pub mod Watching
pub mod Keeping
pub mod Pieces
pub mod Alike
