pub mod Rows
pub mod Fields
pub mod States
pub mod Named
