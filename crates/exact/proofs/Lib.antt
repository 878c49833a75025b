pub mod CanonicalRecords
pub mod Content
pub mod Contents
pub mod Exact
pub mod Examples
pub mod Faults
pub mod Framing
