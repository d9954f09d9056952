pub mod Lines
pub mod Laws
pub mod Written
pub mod Meaning
pub mod Examples
