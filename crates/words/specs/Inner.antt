-- What only the contracts of inner functions cite.
pub mod Bits
pub mod Kinds
pub mod Layout
pub mod Flags
pub mod Marks
