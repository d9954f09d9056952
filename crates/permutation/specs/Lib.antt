pub mod Sharing
pub mod Records
pub mod Relation
pub mod Numbers
pub mod Answers
pub mod Effects
pub mod State
pub mod Left
