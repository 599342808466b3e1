pub mod Fitted
pub mod Histories
pub mod Housed
pub mod Housing
pub mod Pairs
pub mod Parts
pub mod Restored
pub mod Told
