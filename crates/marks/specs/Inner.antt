-- Definitions that only the contracts of inner functions cite.
pub mod Most
pub mod Renewal
