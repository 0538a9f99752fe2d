pub mod Entering
pub mod Finding
pub mod Depth
pub mod Moving
pub mod Reading
pub mod Receiving
pub mod Telling
