pub mod Books
pub mod Answers
pub mod Inner
pub mod Both
pub mod Changes
