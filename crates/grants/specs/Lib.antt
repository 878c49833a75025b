pub mod Grants
pub mod Inner
