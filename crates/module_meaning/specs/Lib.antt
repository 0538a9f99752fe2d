pub mod Table
pub mod ImageRules
pub mod TableRules
pub mod Accepted
pub mod DeviceText
pub mod Module
pub mod Standing
pub mod SourceMeaning
