pub mod Framing
pub mod Letters
pub mod Marks
