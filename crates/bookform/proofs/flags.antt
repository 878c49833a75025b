pub mod Both
pub mod Changing
pub mod Ranges
