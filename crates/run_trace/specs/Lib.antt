pub mod Trace
pub mod Frames
