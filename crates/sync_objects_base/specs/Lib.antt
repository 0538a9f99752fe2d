pub mod Found
pub mod Status
pub mod View
