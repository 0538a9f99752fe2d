pub mod Noted
pub mod Reported
pub mod Steps
pub mod Turns
