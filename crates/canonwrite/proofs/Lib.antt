pub mod Buffer
pub mod Examples
pub mod Into
pub mod Model
pub mod Steps
pub mod Writes
