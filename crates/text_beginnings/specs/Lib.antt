pub mod Kinds
pub mod Settled
