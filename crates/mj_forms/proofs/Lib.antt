pub mod Closing
pub mod Forms
pub mod SeenLine
pub mod Written
