pub mod Filling
pub mod Patterns
pub mod Places
pub mod Spans
