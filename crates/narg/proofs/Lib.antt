pub mod At
pub mod Fields
pub mod Items
pub mod Lists
pub mod Stores
pub mod Words
