pub mod State
pub mod Places
pub mod Copies
pub mod Laws
