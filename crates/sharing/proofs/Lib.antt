pub mod Numbers
pub mod Answered
pub mod First
pub mod Examples
