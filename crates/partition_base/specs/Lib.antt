pub mod Bursting
pub mod Slots
pub mod Sections
pub mod Machines
