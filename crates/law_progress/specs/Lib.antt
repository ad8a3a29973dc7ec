pub mod Undisturbed
pub mod Apart
pub mod FirstCommits
