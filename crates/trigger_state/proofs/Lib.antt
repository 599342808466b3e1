pub mod Rows
pub mod StepLemmas
pub mod Searches
pub mod Sorting
mod Firsts
mod Leaving
mod Origins
