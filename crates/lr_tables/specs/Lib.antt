pub mod Grammar
pub mod Paths
pub mod Tables
