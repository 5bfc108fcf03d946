pub mod Evaluating
pub mod OneLine
pub mod OneWaiting
pub mod Operands
pub mod PartLemmas
pub mod Reader
pub mod Reading
