-- A warden, by definition. It is read in this order.
pub mod State
pub mod Recovery
pub mod Base
pub mod Truncation
pub mod Step
