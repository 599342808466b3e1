pub mod Carried
pub mod Crossing
pub mod FillingLemmas
pub mod Placing
pub mod Placed
