pub mod Clocks
pub mod Cuts
pub mod DayCounts
pub mod Patterns
pub mod Reading
pub mod Shapes
mod Rows
