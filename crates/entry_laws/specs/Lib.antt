pub mod InForce
pub mod Rising
pub mod Previous
pub mod Remembered
pub mod FirstConfig
