pub mod BallotTurns
pub mod ReplicaTurns
