pub mod Ballots
pub mod Known
pub mod Replica
