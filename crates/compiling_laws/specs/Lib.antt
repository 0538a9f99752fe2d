pub mod Constructs
pub mod Bounds
pub mod CompiledCode
pub mod Fits
pub mod Related
pub mod Lifting
pub mod Resolved
