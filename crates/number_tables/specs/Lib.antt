pub mod Cells
pub mod Shares
