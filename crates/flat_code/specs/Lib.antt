pub mod Operation
pub mod Step
pub mod Flat
pub mod Jumps
pub mod Does
