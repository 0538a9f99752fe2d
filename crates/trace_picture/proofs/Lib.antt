pub mod Counts
pub mod Pages
pub mod Plain
pub mod Drawn
