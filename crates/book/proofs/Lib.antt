pub mod Following
pub mod Forms
pub mod Keeping
pub mod Showing
