pub mod Lines
pub mod AnswerForms
pub mod Choices
pub mod Headers
pub mod RecordTexts
pub mod Laws
