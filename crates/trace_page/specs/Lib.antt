pub mod Escaping
pub mod States
pub mod Windows
