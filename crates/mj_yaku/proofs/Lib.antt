mod TileTests
mod RowSets
mod RowLists
mod RowMembers
mod Lists
pub mod SomeHan
mod SomeReading
mod Existence
mod Plain
