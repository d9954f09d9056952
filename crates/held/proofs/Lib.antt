pub mod Sound
pub mod Facts
