pub mod Distinct
pub mod Keys
