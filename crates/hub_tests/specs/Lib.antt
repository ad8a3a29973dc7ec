pub mod Rounds
pub mod Lawful
