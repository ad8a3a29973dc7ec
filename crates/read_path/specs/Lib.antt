pub mod GetOut
