pub mod Chosen
pub mod Remaining
pub mod Named
pub mod Comparisons
pub mod Parts
pub mod Words
