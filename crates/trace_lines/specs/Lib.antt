pub mod Filters
pub mod KindSets
pub mod Limiting
pub mod Comparisons
pub mod Parts
