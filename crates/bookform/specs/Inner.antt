-- Definitions that only the contracts of inner functions cite.
pub mod Answering
pub mod Rows
