mod ReadLemmas
mod ExecutionLemmas
