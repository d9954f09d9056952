pub mod Read
pub mod Told
pub mod Answers
