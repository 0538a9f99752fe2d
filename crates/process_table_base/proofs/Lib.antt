pub mod Bounds
pub mod FirstOf
pub mod Quiet
pub mod Released
pub mod States
pub mod Timed
pub mod Treating
pub mod Yielding
