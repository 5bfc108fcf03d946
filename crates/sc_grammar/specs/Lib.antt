pub mod C11
pub mod Production
pub mod Rules
pub mod Terminals
