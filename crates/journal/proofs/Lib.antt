pub mod Letters
pub mod Joining
pub mod Opening
pub mod Rests
pub mod Calling
pub mod Leaving
