-- Definitions that only the contracts of inner functions cite.
pub mod Writing
pub mod Ranges
