pub mod Utf8
pub mod Place
pub mod Scan
