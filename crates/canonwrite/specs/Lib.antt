pub mod Answers
pub mod Buffer
pub mod Model
pub mod Inner
pub mod Segments
