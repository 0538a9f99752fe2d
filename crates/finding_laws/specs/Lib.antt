pub mod Any
pub mod Once
pub mod Rules
pub mod Bytes
pub mod Found
pub mod Passed
pub mod Placed
