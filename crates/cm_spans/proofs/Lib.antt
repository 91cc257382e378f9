pub mod Runs
pub mod ClosedBy
pub mod Spaced
pub mod Beside
pub mod WordLaws
pub mod RunLaws
pub mod MissingLaws
pub mod Others
