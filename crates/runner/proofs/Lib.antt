pub mod Totals
pub mod EventsFall
pub mod TurnsFall
pub mod Rounds
pub mod NodesFrom
pub mod TurnsKept
pub mod LinksBack
pub mod Counts
