pub mod Config
pub mod Seen
pub mod Settings
pub mod Sound
pub mod SpaceFile
pub mod Texts
