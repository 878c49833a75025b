pub mod Omitting
pub mod Listing
