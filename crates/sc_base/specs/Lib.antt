pub mod Interns
pub mod Seen
