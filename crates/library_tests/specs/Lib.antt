pub mod Scripts
pub mod Plays
