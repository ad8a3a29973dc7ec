pub mod More
pub mod Parts
pub mod Counts
pub mod Doing
pub mod Sizes
pub mod Whole
pub mod Places
pub mod Asking
