pub mod Tries
pub mod Numbering
pub mod Working
pub mod Turning
pub mod Sessions
pub mod Alerts
pub mod Reports
