pub mod SerialItem
pub mod FirstTries
pub mod Serial
