pub mod Views
pub mod Emitted
pub mod Meaning
pub mod Accepted
