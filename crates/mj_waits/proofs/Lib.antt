pub mod WaitSteps
pub mod Missed
