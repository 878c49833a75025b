pub mod Words
pub mod Asked
pub mod Showing
pub mod Reached
pub mod Unique
