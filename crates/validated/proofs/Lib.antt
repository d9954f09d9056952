pub mod Asked
pub mod Terms
pub mod Marks
pub mod Gate
pub mod Facts
