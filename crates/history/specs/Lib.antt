pub mod Along
pub mod Ledger
pub mod Sat
pub mod Calls
pub mod Left
pub mod Demand
pub mod Whole
