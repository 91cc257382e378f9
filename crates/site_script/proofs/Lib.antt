pub mod Forms
pub mod Readings
pub mod Times
pub mod Rows
