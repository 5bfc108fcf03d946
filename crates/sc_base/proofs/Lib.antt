pub mod Growth
pub mod InternLemmas
