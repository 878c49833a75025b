pub mod Lists
pub mod Saturation
pub mod Ranges
pub mod Bounds
pub mod Ground
pub mod Standing
pub mod Trimmed
