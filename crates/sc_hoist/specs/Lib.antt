pub mod Added
pub mod Branches
pub mod Calls
pub mod Leaves
pub mod Places
pub mod Reading
pub mod Alike
