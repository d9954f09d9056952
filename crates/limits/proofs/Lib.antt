pub mod Questions
pub mod Product
pub mod Answered
pub mod Below
