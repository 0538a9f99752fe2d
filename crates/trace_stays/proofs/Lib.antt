pub mod Followed
pub mod Traces
pub mod Steps
