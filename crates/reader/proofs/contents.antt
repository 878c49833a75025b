pub mod Asked
pub mod Contents
