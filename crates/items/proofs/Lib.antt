pub mod Fields
pub mod Told
pub mod Run
pub mod Equations
pub mod Ends
pub mod Lists
