pub mod Peers
pub mod Kept
