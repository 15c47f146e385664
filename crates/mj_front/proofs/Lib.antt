pub mod StatusLaws
pub mod WordLaws
pub mod WaitLaws
