pub mod View
pub mod Fresh
pub mod WithinFact
pub mod Gathering
pub mod Members
