pub mod Accepted
pub mod Assign
pub mod Examples
pub mod Run
pub mod Values
