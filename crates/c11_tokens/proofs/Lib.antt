pub mod LexLaws
pub mod PlainLaws
mod Vectors
pub mod SomeAnswer
