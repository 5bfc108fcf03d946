pub mod Plain
pub mod Rank
pub mod Rows
