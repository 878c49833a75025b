pub mod Alike
pub mod Worth
pub mod Demands
pub mod Previews
