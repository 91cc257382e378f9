pub mod Squeezing
pub mod Boundaries
pub mod ResolvingLaws
pub mod Bare
pub mod Measuring
pub mod EndLaws
pub mod TableLaws
