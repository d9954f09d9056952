pub mod Store
pub mod Pieces
