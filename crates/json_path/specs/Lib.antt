pub mod Grammar
pub mod Tokens
pub mod Machine
pub mod Contents
pub mod Comparing
pub mod Selecting
pub mod Seen
pub mod Results
