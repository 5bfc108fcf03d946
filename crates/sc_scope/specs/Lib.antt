pub mod Kept
pub mod Kinds
pub mod Levels
pub mod Numbered
pub mod Search
pub mod Seen
pub mod Shows
