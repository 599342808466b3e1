pub mod Found
pub mod Days
pub mod Starts
pub mod Series
pub mod Force
pub mod Covering
pub mod Tags
pub mod Suppression
