pub mod Chosen
pub mod Chains
pub mod Sources
pub mod Parts
