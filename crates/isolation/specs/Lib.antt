pub mod Alone
pub mod Brought
pub mod Surrounded
pub mod Slices
pub mod SourceSlices
pub mod ReplayText
pub mod InputText
pub mod Replays
