pub mod Client
pub mod Programs
