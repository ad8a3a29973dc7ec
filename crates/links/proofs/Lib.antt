pub mod Recovered
pub mod LateLemmas
pub mod LateSetLemmas
pub mod ChoiceLemmas
mod ChoosingLemmas
