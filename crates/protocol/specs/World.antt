-- The world of all nodes, by definition. It is read in this order.
pub mod State
pub mod Events
pub mod Decided
pub mod Committed
pub mod Steps
pub mod Premises
