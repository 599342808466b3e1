pub mod Pieces
pub mod Growing
