pub mod Form
pub mod Steps
pub mod Scan
pub mod Read
pub mod Examples
