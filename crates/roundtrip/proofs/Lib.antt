pub mod Fields
pub mod Reading
pub mod Back
pub mod Rules
pub mod Examples
