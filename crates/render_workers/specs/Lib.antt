pub mod Folds
pub mod Whys
pub mod Tallies
pub mod Rounds
pub mod Turns
pub mod Brought
pub mod Worked
pub mod Shown
