pub mod Samples
pub mod SamplePrograms
pub mod Commits
pub mod ReExecutions
pub mod Recoveries
pub mod Truncations
pub mod JournalRuns
pub mod QuietRun
