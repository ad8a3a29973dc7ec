pub mod Answers
pub mod Moving
pub mod Execution
pub mod Memory
pub mod Following
pub mod Coordinator
pub mod Counting
pub mod Step
