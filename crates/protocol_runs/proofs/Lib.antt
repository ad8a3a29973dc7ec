pub mod Computed
pub mod QuietRun
