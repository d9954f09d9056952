pub mod Laws
pub mod Examples
pub mod Place
pub mod Window
pub mod Scan
