pub mod Schedules
pub mod Views
pub mod Keys
pub mod Refusals
pub mod Answers
pub mod Edges
pub mod Orders
pub mod Spans
