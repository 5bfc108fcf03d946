pub mod Applied
pub mod Chains
pub mod Decision
pub mod Diagram
pub mod Entries
pub mod Grown
pub mod Simplified
pub mod Unique
