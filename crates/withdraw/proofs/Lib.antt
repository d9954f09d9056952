pub mod Accepted
pub mod Walked
pub mod Tallied
pub mod Withdrawn
pub mod Keeps
pub mod Left
pub mod Lengths
pub mod Examples
