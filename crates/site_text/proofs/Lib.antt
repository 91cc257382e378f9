pub mod Digits
pub mod Runs
pub mod Words
pub mod Ascii
