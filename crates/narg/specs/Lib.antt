pub mod Bytes
pub mod Cursor
pub mod Reader
