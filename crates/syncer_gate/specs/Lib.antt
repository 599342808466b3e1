pub mod Marks
pub mod Gate
pub mod Chosen
pub mod Stamped
pub mod Window
pub mod Core
