pub mod Relation
pub mod Answers
pub mod Effects
pub mod Left
