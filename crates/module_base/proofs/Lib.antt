pub mod Prelude
pub mod Alike
pub mod InOrder
pub mod Lawful
pub mod LineTexts
pub mod LineWords
pub mod Reading
pub mod Taken
