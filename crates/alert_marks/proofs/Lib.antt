pub mod Blocks
pub mod States
pub mod Marking
pub mod Meeting
pub mod Passing
pub mod Once
pub mod Readings
pub mod Opened
