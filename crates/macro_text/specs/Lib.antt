pub mod References
pub mod Expanded
pub mod Parts
pub mod Index
pub mod Limited
