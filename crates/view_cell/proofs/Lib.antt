pub mod CellLemmas
pub mod VotesStand
pub mod DecisionsStand
