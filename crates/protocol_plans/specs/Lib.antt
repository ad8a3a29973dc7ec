pub mod Scripted
pub mod AlwaysOfScripts
pub mod SerialOutcome
pub mod Limits
pub mod Laws
