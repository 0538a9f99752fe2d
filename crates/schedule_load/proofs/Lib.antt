pub mod Counts
pub mod Offers
pub mod Runs
pub mod Sums
pub mod Steps
