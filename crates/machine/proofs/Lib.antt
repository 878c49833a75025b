pub mod Apart
pub mod Choices
pub mod Flags
pub mod Sets
pub mod Steps
