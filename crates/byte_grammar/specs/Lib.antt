pub mod Bytes
pub mod Runs
pub mod Fault
pub mod Utf8
pub mod Meaning
