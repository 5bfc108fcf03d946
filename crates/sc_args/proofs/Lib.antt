pub mod Counts
pub mod Examples
pub mod FileNames
pub mod Named
pub mod Steps
pub mod Taken
pub mod Values
