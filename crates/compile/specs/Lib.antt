pub mod Records
pub mod Gate
