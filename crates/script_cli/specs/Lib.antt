pub mod Runs
pub mod Words
pub mod Lines
pub mod Due
pub mod Tasks
pub mod Answer
pub mod Clauses
