pub mod Layout
pub mod Leaves
pub mod Size
