pub mod Records
pub mod Requests
pub mod Inner
pub mod Contents
pub mod Found
