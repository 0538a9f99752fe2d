pub mod Digits
pub mod NameText
pub mod Numbers
pub mod Outs
pub mod TickCosts
pub mod Writing
