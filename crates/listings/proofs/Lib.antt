pub mod Ending
pub mod Listings
pub mod Reading
