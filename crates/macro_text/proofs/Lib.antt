pub mod Ends
pub mod Fronts
pub mod Indexed
pub mod Cutting
pub mod Wholes
