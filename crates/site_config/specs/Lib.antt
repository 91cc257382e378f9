pub mod Answers
pub mod Config
pub mod Forms
pub mod Parts
pub mod Table
pub mod Texts
pub mod Seen
