pub mod Beginnings
pub mod Noted
pub mod Told
