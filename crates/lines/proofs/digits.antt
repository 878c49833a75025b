pub mod Decimals
pub mod Signs
