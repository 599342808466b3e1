pub mod Entries
pub mod Ends
pub mod Schedule
pub mod Progress
pub mod Book
