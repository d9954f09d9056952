pub mod Mod
pub mod Ring
pub mod Units
