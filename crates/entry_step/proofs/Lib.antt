pub mod Members
pub mod Problems
pub mod Writes
pub mod Landing
pub mod Closing
pub mod Covered
pub mod Started
pub mod Histories
pub mod Phases
pub mod Represented
pub mod Orders
pub mod Making
pub mod Replays
pub mod Feet
pub mod Sight
pub mod Showing
pub mod Said
pub mod Asking
pub mod Coming
pub mod Visited
pub mod Loops
pub mod Taking
pub mod Turns
pub mod Sorting
pub mod Dues
pub mod Exchanging
mod Cached
pub mod Parting
pub mod Stepped
pub mod Touching
pub mod Finding
pub mod Owning
mod Told
pub mod Moving
pub mod Wholes
pub mod Following
mod Moved
mod CarryingOver
