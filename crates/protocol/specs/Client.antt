-- A client, by definition. It is read in this order.
pub mod State
pub mod Attempts
pub mod Deciding
pub mod Following
pub mod Counting
pub mod Step
