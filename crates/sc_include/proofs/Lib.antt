mod Angles
mod Directories
mod FileNames
