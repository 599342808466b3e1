pub mod GoingOut
pub mod InTurn
pub mod Longest
pub mod Rereading
pub mod Seen
pub mod Telling
