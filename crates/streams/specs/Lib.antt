pub mod Beginnings
pub mod Contents
pub mod Names
pub mod Noted
pub mod Reads
pub mod Reasons
pub mod States
