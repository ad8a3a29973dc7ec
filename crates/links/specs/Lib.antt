pub mod LateSet
pub mod Shown
pub mod Drawings
pub mod Choosing
