-- Definitions that only the contracts of inner functions cite.
pub mod Apply
pub mod Buffers
pub mod Revising
