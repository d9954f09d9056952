pub mod Lines
pub mod Tickets
pub mod Left
