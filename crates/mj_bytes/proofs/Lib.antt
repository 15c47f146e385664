pub mod AddLaws
pub mod PartLaws
pub mod DigitLaws
pub mod NumberLaws
