pub mod Reaching
pub mod Listing
pub mod Opening
pub mod Numbering
pub mod Finding
pub mod Exploring
pub mod Searching
pub mod Reading
