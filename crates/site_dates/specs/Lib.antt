pub mod Days
pub mod Format
pub mod Moment
pub mod Offset
pub mod Shape
pub mod Shown
