pub mod Levels
pub mod Once
pub mod Rising
pub mod Settled
