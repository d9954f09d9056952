pub mod Read
pub mod Answers
pub mod Told
