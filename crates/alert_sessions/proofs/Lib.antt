pub mod Settling
pub mod Sums
pub mod Marking
pub mod Keeping
