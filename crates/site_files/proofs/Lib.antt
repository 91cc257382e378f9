pub mod LastMark
pub mod Stems
pub mod Starts
pub mod Dated
mod Rows
