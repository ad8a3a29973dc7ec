pub mod ScriptNames
pub mod Names
pub mod Orders
pub mod formers
