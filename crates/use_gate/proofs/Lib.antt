pub mod Bound
pub mod Same
pub mod Examples
