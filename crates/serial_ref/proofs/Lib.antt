pub mod OrderLemmas
pub mod TriesAreNamed
pub mod TriesDiffer
