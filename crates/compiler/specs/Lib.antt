pub mod SectionView
pub mod Faithful
pub mod Numbers
