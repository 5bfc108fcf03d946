pub mod BranchLaws
pub mod Branching
pub mod Judging
pub mod LineLaws
pub mod SeenLines
pub mod Splits
