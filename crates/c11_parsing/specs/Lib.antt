pub mod Bindings
pub mod C11
pub mod Classes
pub mod Core
pub mod Derives
pub mod LR
pub mod Parser
pub mod Trees
