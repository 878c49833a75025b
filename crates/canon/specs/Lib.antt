pub mod Canon
pub mod CanonicalRows
pub mod Compare
pub mod Most
pub mod Parts
pub mod RowOrder
pub mod Turns
