pub mod Operations
pub mod Values
