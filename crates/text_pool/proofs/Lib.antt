pub mod TextLaws
pub mod TableLaws
mod Rows
