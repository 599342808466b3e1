pub mod Outcomes
pub mod Numbering
pub mod Changes
pub mod Digits
pub mod Throttling
pub mod Words
pub mod Matching
pub mod Steps
