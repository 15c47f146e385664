pub mod Columns
pub mod Staffs
