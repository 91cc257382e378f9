pub mod Rests
pub mod Answers
pub mod Spots
pub mod Entries
pub mod Quoted
