mod Reading
pub mod Rows
mod Chaining
mod Walking
mod Visiting
pub mod Apart
pub mod Local
mod Keeping
pub mod Becoming
pub mod Plain
pub mod Logs
pub mod Exchanging
mod Named
pub mod GoingOn
mod Moving
pub mod Stands
pub mod Caching
pub mod InCache
