-- Definitions that only the contracts of inner functions cite.
pub mod OneRecord
pub mod Numbered
