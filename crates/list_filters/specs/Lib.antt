pub mod Choosing
pub mod KeyOrder
pub mod Selections
pub mod Sortings
pub mod Tests
