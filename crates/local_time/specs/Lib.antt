pub mod Days
pub mod Dates
pub mod Clock
