pub mod Marks
pub mod Validated
