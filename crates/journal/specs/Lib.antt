pub mod Lines
pub mod Journals
pub mod Places
