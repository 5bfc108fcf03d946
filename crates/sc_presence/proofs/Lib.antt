pub mod PlainLemmas
pub mod RankLemmas
pub mod SetsLemmas
pub mod VariableLemmas
