pub mod Commas
pub mod Telling
pub mod Gathering
