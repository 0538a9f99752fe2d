pub mod Kinds
pub mod Grammar
pub mod Found
pub mod Numbers
pub mod Told
pub mod Pages
