pub mod Instructions
pub mod MachineControl
pub mod Section
pub mod Image
pub mod MachineMeaning
pub mod ImageReading
pub mod ImageSpelling
pub mod ImageLimits
