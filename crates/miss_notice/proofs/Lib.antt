pub mod DueNotes
pub mod NotesTold
