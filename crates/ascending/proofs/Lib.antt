pub mod Comparing
pub mod Keys
pub mod Places
pub mod Rows
