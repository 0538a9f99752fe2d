pub mod Taking
pub mod Waking
