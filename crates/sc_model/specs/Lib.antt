pub mod Bytes
pub mod Cause
pub mod Fault
pub mod Growth
pub mod Outside
pub mod Sets
pub mod Space
pub mod Token
