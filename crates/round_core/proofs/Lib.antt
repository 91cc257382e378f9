pub mod Listing
pub mod MeantLaws
pub mod FactLaws
pub mod HandLaws
pub mod OneWay
pub mod Crosses
mod Rows
