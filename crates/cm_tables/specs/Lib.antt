pub mod Cells
pub mod Rows
pub mod Found
pub mod Tables
