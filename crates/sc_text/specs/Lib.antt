pub mod Answer
pub mod Layout
pub mod Text
