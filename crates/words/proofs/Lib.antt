pub mod Below
pub mod Mid
pub mod Lists
pub mod Pieces
pub mod Held
pub mod Written
