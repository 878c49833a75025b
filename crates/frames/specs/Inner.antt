-- Definitions that contracts of functions cite, and no demand.
pub mod Told
