pub mod Runs
pub mod Calls
pub mod OnDisk
pub mod Worked
