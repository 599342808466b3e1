pub mod Fitting
pub mod Restoring
pub mod Telling
