pub mod Reach
pub mod Found
pub mod Kernel
pub mod States
