pub mod RoundLemmas
pub mod PlacesLemmas
pub mod StateLemmas
pub mod HearingLemmas
pub mod RecovererLemmas
pub mod KeepsTruncations
