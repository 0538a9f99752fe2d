pub mod Explained
pub mod Lists
pub mod Turns
