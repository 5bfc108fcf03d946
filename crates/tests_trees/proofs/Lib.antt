pub mod OwnLemmas
pub mod TreeLemmas
