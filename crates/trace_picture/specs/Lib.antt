pub mod Axis
pub mod Element
pub mod Elements
pub mod Escaped
pub mod Lengths
pub mod Marked
pub mod Page
pub mod Drawn
