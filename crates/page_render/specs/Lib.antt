pub mod Layouts
pub mod Items
