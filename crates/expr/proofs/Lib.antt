pub mod Terms
pub mod Write
pub mod Held
pub mod Scaling
