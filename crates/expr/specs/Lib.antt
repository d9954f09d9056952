pub mod Equation
pub mod Weighted
