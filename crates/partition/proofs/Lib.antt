pub mod AtRest
pub mod Gathering
pub mod Gone
pub mod Leaving
pub mod Phases
pub mod Places
pub mod Quiet
pub mod Told
