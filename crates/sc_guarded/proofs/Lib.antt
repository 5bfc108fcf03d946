pub mod BlockLemmas
pub mod ItemLemmas
mod NextLemmas
mod RestrictionLemmas
mod WalkLemmas
