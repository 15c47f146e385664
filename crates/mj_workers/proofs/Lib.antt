pub mod Snocs
pub mod Columning
pub mod Rows
pub mod Staffing
mod Told
