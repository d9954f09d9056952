pub mod After
pub mod Examples
pub mod Files
pub mod Label
pub mod Steps
