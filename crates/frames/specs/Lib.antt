pub mod Frames
pub mod Inner
pub mod Bytes
