pub mod BaseLemmas
pub mod NamedLemmas
pub mod RecoveringLemmas
pub mod TruncatorLemmas
