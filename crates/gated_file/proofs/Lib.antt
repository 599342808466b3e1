pub mod Moments
pub mod Torn
pub mod Before
pub mod Pieces
pub mod Openings
pub mod Fronts
pub mod Adding
