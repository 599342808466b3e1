pub mod Values
pub mod Numbers
pub mod Changes
pub mod Matching
pub mod Absence
pub mod Ranks
pub mod Clock
pub mod Functions
