pub mod Rows
pub mod Feet
pub mod Conflict
pub mod Reaches
