pub mod Members
pub mod Pairs
pub mod Determined
pub mod Stacks
pub mod Productions
