pub mod Lines
pub mod Pages
pub mod Pieces
pub mod Forms
pub mod Cuts
pub mod Titles
pub mod Words
pub mod Messages
