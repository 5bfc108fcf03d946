pub mod KeyLemmas
pub mod MergeLemmas
pub mod PartLemmas
pub mod ShowLemmas
pub mod ValueLemmas
