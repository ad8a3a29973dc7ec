pub mod Orders
pub mod Unstored
