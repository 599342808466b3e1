pub mod CutLemmas
pub mod FormLemmas
pub mod LineLemmas
pub mod MessageLemmas
pub mod PieceLemmas
pub mod QuoteLemmas
pub mod TitleLemmas
