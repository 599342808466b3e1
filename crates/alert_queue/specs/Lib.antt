pub mod Tree
pub mod Lanes
pub mod Queues
pub mod Events
pub mod Law
pub mod New
