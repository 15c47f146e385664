pub mod KindsFrom
pub mod RiichiKanSteps
