pub mod ByteLemmas
pub mod ListLemmas
pub mod SetLemmas
pub mod SpaceLemmas
