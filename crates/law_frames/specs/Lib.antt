pub mod Limits
pub mod Frames
pub mod Handling
