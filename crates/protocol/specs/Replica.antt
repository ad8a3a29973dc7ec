-- A replica, by definition. It is read in this order.
pub mod Taken
pub mod Acceptor
pub mod Held
pub mod Votes
pub mod Readers
pub mod Says
pub mod Limits
