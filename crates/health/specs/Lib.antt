pub mod Raising
pub mod View
