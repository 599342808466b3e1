pub mod Requests
pub mod Replies
pub mod Seen
pub mod Tokens
