pub mod Lines
pub mod Numbers
pub mod NormalMode
pub mod Creation
pub mod Among
