pub mod Conditions
pub mod Steps
pub mod Triggers
pub mod Messages
pub mod Escalations
pub mod Laws
