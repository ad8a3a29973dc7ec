pub mod Piece
pub mod Printer
pub mod Canonical
pub mod Spelling
pub mod Laws
pub mod Written
