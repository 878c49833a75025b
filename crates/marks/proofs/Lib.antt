pub mod WholeBlocks
pub mod Halves
pub mod Loops
pub mod Net
