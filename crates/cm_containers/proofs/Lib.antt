pub mod Texts
pub mod Steps
pub mod Shifting
pub mod Entering
pub mod Filling
pub mod Walking
pub mod WhiteSpace
pub mod QuoteLaws
mod Rows
