pub mod Keys
pub mod Merges
pub mod Phases
pub mod Shows
