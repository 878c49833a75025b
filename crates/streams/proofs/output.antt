pub mod Taken
pub mod Taking
pub mod NetAs
