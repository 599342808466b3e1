pub mod Bytes
pub mod Runs
pub mod Faults
pub mod Utf8Texts
pub mod Utf8Meaning
