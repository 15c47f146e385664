pub mod Names
pub mod Entries
pub mod SeatCalls
pub mod Seats
