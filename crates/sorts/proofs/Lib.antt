pub mod Marks
pub mod Flags
pub mod Same
pub mod Refusals
