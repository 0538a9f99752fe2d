pub mod Parts
pub mod Rights
pub mod Space
