pub mod MapLemmas
pub mod ExecutionLemmas
pub mod RepeatLemmas
