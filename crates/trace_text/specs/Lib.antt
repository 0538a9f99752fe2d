pub mod Reading
pub mod Stream
pub mod Trace
