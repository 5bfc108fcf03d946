pub mod Change
pub mod Parts
pub mod Table
pub mod Start
