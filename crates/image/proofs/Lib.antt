pub mod Limits
pub mod Lists
pub mod Loop
pub mod Names
pub mod Pieces
