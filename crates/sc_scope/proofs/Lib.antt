pub mod KindLemmas
pub mod LevelLemmas
pub mod NumberLemmas
pub mod OwnLemmas
pub mod SearchLemmas
pub mod ShowLemmas
pub mod TrieLemmas
