pub mod Costs
pub mod Fitting
pub mod Operations
pub mod Runs
pub mod Straight
pub mod Turns
pub mod Views
