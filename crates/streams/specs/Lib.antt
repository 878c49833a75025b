pub mod Inputs
pub mod Pieces
