pub mod Slots
pub mod Assign
pub mod Values
pub mod VarValue
