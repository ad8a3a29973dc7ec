pub mod Entries
pub mod Knowledge
pub mod Log
pub mod Standing
