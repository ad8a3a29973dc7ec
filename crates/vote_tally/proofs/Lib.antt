pub mod CountingLemmas
pub mod TallyLemmas
