pub mod Branches
pub mod Judges
pub mod Nests
pub mod Sections
pub mod Split
pub mod Unread
