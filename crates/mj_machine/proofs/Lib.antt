pub mod Circumstances
pub mod Drawn
pub mod Few
pub mod Followed
pub mod Indicators
pub mod Reaches
pub mod RowSteps
pub mod Small
