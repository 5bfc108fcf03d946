pub mod Laying
pub mod Pending
pub mod Sizes
pub mod Weights
