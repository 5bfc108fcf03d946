pub mod Lines
pub mod Parameters
pub mod Reads
pub mod Views
pub mod Walks
