pub mod Bursts
pub mod Layouts
pub mod Places
