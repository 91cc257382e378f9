pub mod Lists
pub mod Labels
pub mod Hashes
pub mod Settings
pub mod Variables
pub mod Choosing
pub mod Gathering
pub mod Resting
