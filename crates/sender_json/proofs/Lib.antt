pub mod LengthLemmas
pub mod RequestLaws
pub mod Turns
pub mod Firsts
pub mod Kept
