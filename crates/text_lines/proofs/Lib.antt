pub mod Decimals
pub mod Pieces
pub mod Names
pub mod Words
