pub mod Meant
pub mod States
pub mod Steps
pub mod Facts
pub mod Hands
pub mod Samples
