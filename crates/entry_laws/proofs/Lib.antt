pub mod Meeting
pub mod Behind
pub mod InForce
pub mod Runs
pub mod Rising
pub mod Previous
pub mod First
pub mod Remembered
