pub mod Calls
pub mod Chains
pub mod Shows
