pub mod Trees
pub mod Schedules
pub mod Filings
pub mod Fillings
