pub mod Seen
pub mod Items
pub mod Head
pub mod Reads
