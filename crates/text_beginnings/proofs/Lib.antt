pub mod Stained
pub mod Images
pub mod Inputs
pub mod Sources
