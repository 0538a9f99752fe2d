pub mod LineText
pub mod Refusals
pub mod Rows
pub mod Seen
pub mod TextLines
pub mod Views
