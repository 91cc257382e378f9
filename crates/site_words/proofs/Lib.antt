pub mod Gathering
pub mod Matching
pub mod Numerals
pub mod Rows
pub mod Lexing
pub mod Parsing
pub mod Walks
pub mod Parsed
