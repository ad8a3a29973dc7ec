pub mod Executions
pub mod AnsweredOn
