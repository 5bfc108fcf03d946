pub mod Choosing
pub mod Reading
pub mod Soundness
pub mod TextLists
mod Examples
