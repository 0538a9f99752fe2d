pub mod Shown
pub mod Stays
pub mod Clearing
pub mod Following
pub mod Same
pub mod Traces
pub mod Within
