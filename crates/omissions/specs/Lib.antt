pub mod Omissions
