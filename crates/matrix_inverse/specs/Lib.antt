pub mod Rows
pub mod Inverse
pub mod Words
