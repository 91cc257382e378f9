pub mod Fronts
mod Rows
pub mod SlugWalk
pub mod Templates
