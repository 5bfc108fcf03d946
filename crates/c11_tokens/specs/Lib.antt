pub mod Constants
pub mod Lex
pub mod Relex
