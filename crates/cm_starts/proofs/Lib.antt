pub mod Ends
pub mod Repeats
pub mod Words
mod Tagged
mod Numerals
