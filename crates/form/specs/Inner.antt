-- Definitions that only the contracts of inner functions cite.
pub mod Depths
pub mod Keys
