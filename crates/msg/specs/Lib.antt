pub mod Body
pub mod Events
