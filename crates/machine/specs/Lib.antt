pub mod Machine
pub mod Closed
pub mod Choices
