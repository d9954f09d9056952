pub mod Read
pub mod Sound
pub mod Records
pub mod Answers
pub mod Given
