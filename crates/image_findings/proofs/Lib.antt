pub mod Cuts
pub mod Judged
pub mod Told
pub mod Lines
pub mod Pieces
pub mod Loops
