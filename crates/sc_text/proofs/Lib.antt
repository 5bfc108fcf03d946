pub mod Alike
pub mod Ascending
pub mod ConditionLemmas
pub mod Expansions
pub mod FaultOrder
pub mod LayoutLemmas
pub mod LayoutReading
pub mod ListLemmas
pub mod Nodes
pub mod Numerals
pub mod OneAnswer
pub mod OneLayout
pub mod OneText
pub mod TextLaws
mod TextVectors
