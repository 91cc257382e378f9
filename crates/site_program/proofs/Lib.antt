pub mod Cases
pub mod Checking
pub mod Making
pub mod Onces
pub mod Completes
pub mod OneBuilds
pub mod Orders
pub mod Turns
