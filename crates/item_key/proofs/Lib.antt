pub mod Complete
pub mod FrontKeys
pub mod Meanings
pub mod Runs
pub mod Sound
