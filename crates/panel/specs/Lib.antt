pub mod Panels
pub mod Inner
