pub mod Building
pub mod First
pub mod Marks
pub mod Propagation
pub mod Tables
