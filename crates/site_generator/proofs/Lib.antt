pub mod Digits
pub mod Fits
mod Rows
