pub mod Faults
pub mod Places
pub mod Lists
pub mod Wording
pub mod Json
