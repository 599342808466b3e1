pub mod IdLemmas
pub mod RowLemmas
pub mod Walks
pub mod Settling
pub mod TableLemmas
