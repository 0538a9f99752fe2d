pub mod Bounds
pub mod Delivering
pub mod Held
pub mod Status
pub mod View
