pub mod Envelope2
pub mod Marks
pub mod Notes
