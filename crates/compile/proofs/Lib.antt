pub mod Publics
pub mod Rising
pub mod Gate
pub mod Facts
pub mod Counts
pub mod Examples
