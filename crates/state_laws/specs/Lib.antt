pub mod Told
pub mod States
pub mod Spending
pub mod Starts
pub mod Locks
