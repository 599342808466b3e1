pub mod RankLemmas
pub mod CallPatterns
pub mod Looking
