pub mod TransferLemmas
pub mod GeneratedIsSayable
