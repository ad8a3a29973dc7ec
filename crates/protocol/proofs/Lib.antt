pub mod TestLemmas
pub mod NamesLemmas
pub mod ReplicaGrows
pub mod EventSteps
pub mod ListsLemmas
pub mod QuorumsLemmas
pub mod BasicLaws
pub mod DistinctLemmas
