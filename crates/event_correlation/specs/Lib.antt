pub mod Conditions
pub mod Closings
pub mod Due
pub mod Laws
