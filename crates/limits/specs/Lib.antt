pub mod Numbers
pub mod Questions
pub mod Asks
pub mod Below
pub mod Outcome
