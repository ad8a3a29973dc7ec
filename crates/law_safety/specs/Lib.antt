pub mod Locks
pub mod Agreement
pub mod Tries
pub mod Bases
pub mod CommittedList
pub mod Invariants
pub mod Replays
