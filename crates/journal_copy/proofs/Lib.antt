pub mod Places
pub mod Keeping
pub mod States
pub mod Forming
pub mod Copies
pub mod GoingOn
