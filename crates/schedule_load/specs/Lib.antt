pub mod Ownership
pub mod Gaps
pub mod Load
pub mod Shares
pub mod Bodies
pub mod Report
