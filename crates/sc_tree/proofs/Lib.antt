pub mod DeclaredLemmas
pub mod GuardedLemmas
pub mod LineLemmas
pub mod ParameterLemmas
pub mod ReadLemmas
pub mod SameLines
pub mod Steps
pub mod WalkLemmas
