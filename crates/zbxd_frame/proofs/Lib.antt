pub mod FoundLemmas
pub mod FrameLaws
