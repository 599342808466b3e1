mod Gathered
mod LastSteps
pub mod Asking
