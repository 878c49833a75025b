pub mod Rules
pub mod Standing
pub mod Inner
