pub mod Equality
pub mod Parameters
pub mod Reading
pub mod Texts
pub mod Turns
