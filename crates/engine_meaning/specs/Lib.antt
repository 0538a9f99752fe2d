pub mod Digits
pub mod Operators
pub mod Engine
pub mod Simulates
