pub mod InParts
pub mod Seats
