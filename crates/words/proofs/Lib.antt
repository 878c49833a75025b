pub mod Deciding
pub mod BitLaws
pub mod Places
pub mod Walking
