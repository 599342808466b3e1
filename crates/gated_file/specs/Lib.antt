pub mod Around
pub mod Moments
pub mod Opened
pub mod Groups
