pub mod Blank
pub mod Fuse
pub mod Read
pub mod Twice
pub mod Whole
