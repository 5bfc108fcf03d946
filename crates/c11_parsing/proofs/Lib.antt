pub mod Events
pub mod Examples
pub mod OneAnswer
pub mod OneClass
pub mod Derivations
