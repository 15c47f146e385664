pub mod ReplayLaws
pub mod ObserveLaws
