pub mod Receiving
pub mod Showing
