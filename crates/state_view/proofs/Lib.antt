pub mod Loops
pub mod Named
pub mod Places
