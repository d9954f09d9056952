pub mod Values
pub mod Check
pub mod Valid
pub mod Scratch
