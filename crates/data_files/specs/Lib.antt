pub mod Columns
pub mod Formats
pub mod Json
pub mod Readings
pub mod Tables
