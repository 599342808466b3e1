pub mod Walks
pub mod Cycles
pub mod Depths
pub mod Tables
