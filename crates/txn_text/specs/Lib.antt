pub mod Bytes
pub mod Faults
pub mod Tokens
pub mod Kinds
pub mod Layout
