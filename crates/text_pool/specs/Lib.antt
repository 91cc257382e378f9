pub mod Texts
pub mod TextKeys
pub mod Layout
