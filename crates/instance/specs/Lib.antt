pub mod Parts
pub mod Looks
