pub mod Items
pub mod Named
pub mod Views
