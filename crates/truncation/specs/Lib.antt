-- Read in this order.
pub mod Base
pub mod Truncator
pub mod Laws
