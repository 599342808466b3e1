pub mod Texts
pub mod Splitting
