pub mod Written
pub mod Numbering
pub mod Form
pub mod Numbers
pub mod Allowed
pub mod Inner
pub mod Words
