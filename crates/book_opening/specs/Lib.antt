pub mod Tally
pub mod Outgoing
pub mod Opening
