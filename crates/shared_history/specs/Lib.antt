pub mod Calls
pub mod Left
pub mod Demand
pub mod Whole
