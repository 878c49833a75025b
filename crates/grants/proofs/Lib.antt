pub mod Allowed
pub mod Exact
pub mod Found
pub mod Fuse
pub mod Gives
pub mod Reread
pub mod Spelled
pub mod Steps
