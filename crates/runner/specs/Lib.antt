pub mod Progress
pub mod AtSlot
pub mod WholeRun
pub mod Growth
