pub mod Computing
pub mod Listed
pub mod Certified
pub mod Marks
pub mod Worked
