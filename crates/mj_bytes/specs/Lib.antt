pub mod Adds
pub mod Numbers
pub mod Parts
