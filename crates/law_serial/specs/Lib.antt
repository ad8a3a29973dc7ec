pub mod SureNotes
pub mod Reads
pub mod PutsAreFronts
pub mod NothingBetween
pub mod Serial
