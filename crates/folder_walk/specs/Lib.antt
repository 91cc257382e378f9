pub mod Reasons
pub mod Skips
