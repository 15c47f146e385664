pub mod Chains
mod Dealt
pub mod Lists
mod Rows
mod Wins
