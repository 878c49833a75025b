pub mod Numbers
pub mod Flags
pub mod Blank
pub mod RowForm
pub mod Decides
pub mod Refusals
