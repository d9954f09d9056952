pub mod Accepted
pub mod Evaluated
pub mod Written
pub mod Steps
