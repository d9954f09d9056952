pub mod Inverse
pub mod Answers
pub mod Walks
