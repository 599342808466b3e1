pub mod Fields
pub mod Notes
