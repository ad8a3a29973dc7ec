pub mod Moving
pub mod Places
pub mod Stopping
pub mod Suffix
pub mod Resuming
pub mod Crossing
