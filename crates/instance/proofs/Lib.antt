pub mod Pairs
pub mod Parts
pub mod Looks
