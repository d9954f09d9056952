pub mod Length
pub mod Stored
pub mod Steps
pub mod Held
