-- Read in this order.
pub mod Phase
pub mod Round
pub mod Places
pub mod Rounds
pub mod Recoverer
pub mod Laws
