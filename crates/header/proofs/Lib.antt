pub mod Magic
pub mod Got
