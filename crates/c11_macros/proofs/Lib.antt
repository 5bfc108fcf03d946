pub mod Agreement
pub mod CallEnds
mod Examples
pub mod Halting
pub mod LongerLists
pub mod OneAnswer
pub mod OneLineLists
pub mod OneRun
pub mod Resuming
pub mod Rows
pub mod RunExpands
pub mod RunsAgree
pub mod SameLaws
pub mod SettledLists
pub mod SettlesLaws
pub mod Settling
pub mod Splitting
