pub mod Leaves
pub mod Relation
pub mod Trace
pub mod Gate
pub mod Sfri
pub mod Shared
