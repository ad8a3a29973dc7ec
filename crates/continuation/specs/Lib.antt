pub mod Reaching
pub mod Place
pub mod Segment
pub mod Job
pub mod Underway
