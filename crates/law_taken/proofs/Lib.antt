pub mod AboveLemmas
pub mod ReadersLemmas
pub mod Alike
pub mod AlikeAfterTaken
pub mod AlikeAfterUntaken
pub mod HandledReadsAsTaken
