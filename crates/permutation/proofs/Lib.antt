pub mod Answered
pub mod Accepted
pub mod Sets
pub mod Looked
pub mod Slots
pub mod Left
pub mod Examples
