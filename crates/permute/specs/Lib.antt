pub mod Permute
pub mod Parameters
pub mod Columns
pub mod Walks
