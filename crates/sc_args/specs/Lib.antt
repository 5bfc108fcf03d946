pub mod Laws
pub mod Refusal
pub mod Seen
pub mod Words
