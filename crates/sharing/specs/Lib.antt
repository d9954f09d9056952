pub mod Records
pub mod Shares
pub mod Opening
pub mod Answers
