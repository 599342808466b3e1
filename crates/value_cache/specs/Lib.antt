pub mod Histories
pub mod Windows
pub mod Keeps
pub mod Tokens
pub mod Cells
pub mod Beside
pub mod Standing
pub mod Laws
